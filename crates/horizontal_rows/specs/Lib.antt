pub mod RowMarks
