pub mod Asked
pub mod InTurn
pub mod Origins
pub mod AskedMeasures
