pub mod Pages
pub mod Lists
pub mod Reserving
pub mod Counting
pub mod Laying
pub mod inner
