pub mod Places
pub mod Scan
pub mod Numbers
pub mod InternalScan
pub mod InternalIndex
