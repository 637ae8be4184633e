-- Theorems has the proof of each statement of specs/Theorems.antt. The others lead to it: TallyLaws and RowLaws are of one station's steps,
-- ExchangeLaws of one exchange (Definition 6), PartLaws and RoundLaws of the rounds, BroadcastLaws of a whole run (demand 3), StationLaws and AssemblyLaws
-- of single stations (demand 2), BytesLaws of logs and outcomes, SaidLaws of what is sent in each round, LastRoundLaws of the last
-- one, GarbledLaws of what is garbled, EffectLaws of what has no effect.
pub mod TallyLaws
pub mod RowLaws
pub mod ExchangeLaws
pub mod PartLaws
pub mod RoundLaws
pub mod BroadcastLaws
pub mod BytesLaws
pub mod SaidLaws
pub mod LastRoundLaws
pub mod GarbledLaws
pub mod StationLaws
pub mod AssemblyLaws
pub mod EffectLaws
pub mod Theorems
