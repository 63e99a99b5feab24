pub mod Restrictions
