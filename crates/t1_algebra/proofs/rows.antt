pub mod FontRows
