-- Laws of the whole form: judged, and its records as one file.
pub mod FormLaws
pub mod FileLaws
