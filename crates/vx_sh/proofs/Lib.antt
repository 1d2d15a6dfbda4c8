-- Lemmas on slice headers.
pub mod Depending
pub mod Kept
pub mod Rewritten
pub mod Passing
mod Parts
pub mod Stopped
pub mod Sized
mod Written
pub mod Told
mod Addressed
mod Writable
mod Closed
mod Elsewhere
pub mod Scopes
pub mod Small
pub mod SameScopes
mod Stating
mod Reshaping
mod Reshaped
mod Sending
mod Stated
mod Filtering
mod FirstBit
mod Enabled
mod Short
