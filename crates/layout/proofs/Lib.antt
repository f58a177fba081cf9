pub mod PacketLaws
pub mod ResultBufferLaws
pub mod ParameterTableLaws
pub mod Demand2
pub mod Sums
pub mod Vectors
