mod BroughtBack
mod InTurn
mod Owned
mod Pages
mod Reached
mod Started
