pub mod Taking
pub mod Laying
