-- Exit statuses (this project's format), of what is reported and where nothing is, for who ends by them.
pub use Rattle.audit_input.specs.Codes.{code_of_fault}
pub use Rattle.audit_report.specs.Codes.{code_of_status}
