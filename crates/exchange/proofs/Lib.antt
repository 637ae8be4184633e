-- ExchangeLaws has the laws of the exchange had alone; in a folder for each function is the proof that it meets its contract.
pub mod ExchangeLaws
