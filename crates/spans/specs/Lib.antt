pub mod Goods
