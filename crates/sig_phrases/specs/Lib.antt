pub mod SigsRead
