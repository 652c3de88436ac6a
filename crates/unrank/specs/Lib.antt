pub mod Unrank
