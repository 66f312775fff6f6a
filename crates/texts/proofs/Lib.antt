-- Laws of the digits of a number.
pub mod DigitLaws
pub mod TextLaws
