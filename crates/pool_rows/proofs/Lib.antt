mod Counting
mod Entries
mod Free
mod Turns
