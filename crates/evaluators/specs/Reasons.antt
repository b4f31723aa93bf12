-- The reasons of the code, seen as the model's: those of the machine.
pub use Rattle.machine.specs.Reasons.{reason_of}
