pub mod Gossip
