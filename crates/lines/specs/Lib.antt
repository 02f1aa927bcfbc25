pub mod Lines
pub mod Dash
pub mod Table
pub mod Ready
pub mod Places
pub mod Raw
pub mod Filling
