mod Imaging
mod Lowering
mod Naming
mod Refusing
