-- StepLaws: what the call by value promises, said of a lent station. take and vembopu_advance_lent: that each meets its contract.
pub mod StepLaws
