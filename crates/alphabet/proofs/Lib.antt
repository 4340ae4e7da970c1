pub mod Facts
