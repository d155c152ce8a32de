mod Opening
mod Once
mod Sole
mod Working
mod Direct
