-- What the contracts cite: an atom's arguments, word by word, and its nine numbers.
pub mod Arguments
