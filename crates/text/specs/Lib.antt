-- Text in a lent buffer: Decimal has the bytes of a number, Laid what becomes of the buffer, and Theorems what is shown of the definitions.
pub mod Decimal
pub mod Laid
pub mod Theorems
