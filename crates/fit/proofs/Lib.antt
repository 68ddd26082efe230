pub mod FitCall
