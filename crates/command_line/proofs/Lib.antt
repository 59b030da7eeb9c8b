mod Examples
mod Given
mod Lacking
mod Steps
