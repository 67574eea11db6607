pub mod Certificates
pub mod Rows
