pub mod Decimal
pub mod Pieces
pub mod Printed
pub mod Said
pub mod Lent
pub mod Running
