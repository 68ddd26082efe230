pub mod DropLaws
