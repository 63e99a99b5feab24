pub use Rattle.emit_rows.proofs.of_machine_rows as of_machine_rows
mod Choices
mod Downwards
mod Slots
