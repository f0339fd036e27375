mod Lawful
mod OneOf
mod Starts
