mod Commands
mod Fields
mod Steps
mod Writing
