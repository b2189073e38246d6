-- How long the text of a report can be.
pub use Rattle.certificate.proofs.ReportLaws.{report_by_rows, report_short}
