pub mod CommandLines
pub mod OneRun
pub mod SystemTurns
