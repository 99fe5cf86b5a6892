pub mod Rules
pub mod OneForm
