pub mod Properties
