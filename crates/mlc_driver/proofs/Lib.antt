mod Joining
mod Refusing
mod Running
mod Telling
