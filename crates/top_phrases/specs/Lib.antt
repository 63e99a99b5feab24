pub mod TopsRead
