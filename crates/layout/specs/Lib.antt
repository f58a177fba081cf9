pub mod Packet
pub mod ResultBuffer
pub mod ParameterTable
pub mod Demand2
