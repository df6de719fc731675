pub mod Endings
pub mod Input
pub mod Laws
pub mod Output
pub mod Playing
pub mod Unbuilt
pub mod Words
