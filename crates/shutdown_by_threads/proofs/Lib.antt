mod Dealt
mod Numbers
