pub mod Timetable
pub mod Theorems
