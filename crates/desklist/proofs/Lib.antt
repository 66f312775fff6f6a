-- The list filled piece by piece; and when it is in order as it was filled.
pub mod Filling
pub mod Rising
