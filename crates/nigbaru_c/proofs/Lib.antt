mod Holding
mod Laying
mod Texts
