pub mod BoardReports
