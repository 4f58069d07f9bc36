mod Behind
mod Each
mod Rising
mod Writing
