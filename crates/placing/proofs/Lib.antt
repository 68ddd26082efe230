pub mod FaceLaws
