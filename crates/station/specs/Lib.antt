-- One station's calls (document 01, "One station"). Automaton: the struct as the automaton of crate broadcast. Answers: what each call promises.
-- Singly: its calls on the rows of a log. Theorems: what is shown of calls in a row. What is refused is defined in crate state.
pub mod Automaton
pub mod Tallies
pub mod Answers
pub mod Singly
pub mod Theorems
