mod AllRows
mod Bounds
mod Examples
mod RowExamples
