-- The definitions that the contracts of this crate cite.
pub mod Places
pub mod NalUnit
pub mod Emulation
pub mod ByteStream
pub mod Held
pub mod Reading
pub mod Laws
pub mod inner
