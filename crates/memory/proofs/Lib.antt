pub mod SlotLaws
pub mod MemoryLaws
