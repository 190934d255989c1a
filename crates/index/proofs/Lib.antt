-- That no second outcome meets the contract of a call; and what the calls leave of the session table.
pub mod Once
pub mod OneSeat
