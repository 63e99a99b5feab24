pub use Rattle.machine_rows.proofs as of_machine_rows
