pub mod WordLines
