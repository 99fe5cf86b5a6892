pub mod AfterChild
