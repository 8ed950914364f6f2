pub mod NearMisses
